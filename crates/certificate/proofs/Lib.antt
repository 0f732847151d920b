-- Laws of plans made elsewhere. Assumes nothing.
pub mod CertificateLaws
pub mod WorkedCertificates
